pub mod Verbs
pub mod Arguments
pub mod Commands
pub mod Texts
pub mod Replies
pub mod Retelling
pub mod ReplyLaws
