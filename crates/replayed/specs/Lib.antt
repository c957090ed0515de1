-- That what `replay` writes (clause 10.8) is what the service bounds speak of (clauses 10.2 to 10.4).
pub mod Written
