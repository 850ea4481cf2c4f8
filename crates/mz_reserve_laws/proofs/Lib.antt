pub mod OneReservation
