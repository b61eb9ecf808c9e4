-- Which errors of reading settings there are, stated a second time.
use Rattle.std.proofs.Common.{ℕ, List, String, Global}
use Rattle.humantime_settings.specs.Positions.{IsErrorIn}
use Rattle.humantime_settings.specs.declared.error.SettingsError.TheVariants.{WithoutPosition}

-- An error without a position is none in a document.
any_message : (document : List ℕ) (message : String Global)
    → ¬ (IsErrorIn document (WithoutPosition message))
any_message document message is_in = is_in
