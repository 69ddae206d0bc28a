pub mod Bytes
pub mod Does
pub mod Laws
pub mod Memory
pub mod Shown
pub mod Told
