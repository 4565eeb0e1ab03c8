-- What the law of crashes says: no claim rests on this page.
pub mod Found
