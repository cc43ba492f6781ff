pub mod Cells
pub mod Bodies
pub mod Sixteens
pub mod Links
pub mod Stacks
pub mod Objects
pub mod Forgotten
pub mod KnownTables
