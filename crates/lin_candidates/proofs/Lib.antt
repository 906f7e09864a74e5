pub mod NoneOwn
