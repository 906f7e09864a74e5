mod StatusLemmas
mod NumberLemmas
mod TableLemmas
mod ScanLemmas
