pub mod ApartMembers
pub mod MemberTables
pub mod Owners
pub mod MemberTypes
