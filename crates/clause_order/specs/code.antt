-- Nothing public rests on this.
pub mod Inside
pub mod Next
