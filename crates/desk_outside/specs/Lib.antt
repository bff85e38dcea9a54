-- The spec modules: faults, files, bytes, keepers and connections, and where these come from.
pub mod Faults
pub mod Files
pub mod Bytes
pub mod Schedule
pub mod Memory
pub mod KeeperMemory
pub mod LinkReads
pub mod LinkMemory
pub mod Doors
pub mod Streets
pub mod Cabinets
pub mod DoorMemory
pub mod StreetMemory
pub mod CabinetMemory
