-- EventLaws serves the proof of `event_at`; Samples are lines by computing.
mod EventLaws
mod Samples
