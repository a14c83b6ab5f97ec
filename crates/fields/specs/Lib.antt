pub mod Runs
pub mod Common
pub mod Smtp
pub mod Pop3
pub mod Imap
