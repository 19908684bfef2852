-- Items that are written are read again, and so are modules.
pub mod Names
pub mod Aligned
pub mod ParamNames
pub mod Params
pub mod Vars
pub mod Funcs
pub mod Symbols
pub mod Items
pub mod Modules
pub mod Again
pub mod Texts
pub mod Whole
