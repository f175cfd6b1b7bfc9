pub mod Withholding
