pub mod ReserveLemmas
