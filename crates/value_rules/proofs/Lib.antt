pub mod DayRoundTrip
pub mod ReadDays
pub mod RoundTrip
