pub mod LinesOf
