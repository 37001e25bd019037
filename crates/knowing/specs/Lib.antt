pub mod Knowns
