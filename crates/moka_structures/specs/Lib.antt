pub mod Linked
pub mod Links
pub mod OrderList
pub mod Rings
pub mod Older
pub mod Newest
pub mod Outstanding
pub mod TicketTable
