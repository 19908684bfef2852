-- Bodies that are written are read again.
pub mod Lines
pub mod Bodies
