mod CarriedOut
mod Prefixes
mod Quiescence
mod TimelyTraces
