mod BareDisks
mod Examples
mod GroupExamples
mod LvExamples
mod RefusedExamples
