mod Flights
mod Counting
mod Queues
mod InOrder
mod Kept
mod Rows
