-- Steps and runs over constants as a run takes them: the program after each, whose file is read again, means what the
-- one before does. Definitions and laws alone, without code.
pub mod Bared
pub mod RunPackages
pub mod SameCode
pub mod PlainNext
pub mod Laws
