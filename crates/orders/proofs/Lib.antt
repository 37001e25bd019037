pub mod Forms
pub mod Likes
pub mod ValueLaws
