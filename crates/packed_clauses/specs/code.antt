-- How clauses are written. Nothing public rests on this.
pub mod Spelling
