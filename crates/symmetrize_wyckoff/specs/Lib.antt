-- What is found of a design: spaces and labels, one set at the most; and demand 3 of a call that letters it. Then the
-- letters site by site: the walk, its prepared candidates, when every site has one, and the parts of the letter call.
pub mod Spaces
pub mod Lettered
pub mod Letter
pub mod Firsts
pub mod Walk
pub mod Unfit
pub mod Prepared
pub mod Lettering
pub mod Given
