mod Runs
mod Found
mod LineOrders
