pub mod WaitBound
pub mod BusyCores
