pub mod Sums
pub mod BusyCores
pub mod BoundedWait
pub mod OneSet
pub mod AcceptedFile
pub mod WaitTable
