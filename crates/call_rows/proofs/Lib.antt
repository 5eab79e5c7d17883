pub mod RowLimits
