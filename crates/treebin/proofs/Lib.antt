pub mod InsertLaws
pub mod UnlinkLaws
pub mod SearchLaws
pub mod BinsLaws
