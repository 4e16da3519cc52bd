pub mod KeptNotices
