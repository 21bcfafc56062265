-- Types that are distinguishable, effective overload sets, and the index at which their overloads differ.
pub mod Inheritance
pub mod Distinct
pub mod Pairs
pub mod Sets
pub mod Entries
pub mod Standing
pub mod Spans
pub mod Index
pub mod Numbers
pub mod Construction
pub mod OverloadLists
pub mod OverloadNames
