-- What the settings are.
pub mod Settings
