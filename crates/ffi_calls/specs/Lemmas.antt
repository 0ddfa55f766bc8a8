pub mod AnyValues
