pub mod Looked
pub mod Newlines
pub mod Remark
pub mod Subject
pub mod Written
