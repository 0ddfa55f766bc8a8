-- All definitions of the crate, which contracts and proofs import from here.
pub mod Lines
pub mod Table
unfoldable pub use Lines.{has_symbol, symbol_of, symbols_of, with_name_bytes}
unfoldable pub use Table.{IsTable, IsTableOf, Represents, Symbols, TableFails, ValidationFails}
unfoldable pub use Table.{address_found, header_spec}
