pub mod HasColumn
pub mod TasksThere
