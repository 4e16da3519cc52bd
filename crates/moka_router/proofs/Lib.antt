pub mod AtIndex
