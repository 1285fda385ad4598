-- What the code leaves at each return, as laws.
pub mod PlayCode
pub mod FeedCode
pub mod PlayObeys
pub mod Pieces
