pub mod NumberFirst
