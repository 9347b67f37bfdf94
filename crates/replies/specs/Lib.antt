pub mod Replies
pub mod Transcripts
