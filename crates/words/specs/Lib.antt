-- The vocabulary that all layers share.
pub mod Logic
pub mod Edition
pub mod Fields
pub mod Places
