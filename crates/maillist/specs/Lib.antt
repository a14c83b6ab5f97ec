pub mod Maillist
