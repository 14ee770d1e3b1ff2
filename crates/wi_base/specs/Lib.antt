pub mod Shelf
pub mod FailedCalls
pub mod Sink
pub mod MemoryShelf
pub mod MemorySink
pub mod private
