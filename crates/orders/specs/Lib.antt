pub mod Order
pub mod Forms
pub mod Instances
pub mod Likes
pub mod Cases
pub mod Values
pub mod ValueLaws
