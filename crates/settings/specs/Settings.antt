-- Document 01, "Settings and sizes": the settings.
-- Assumes nothing.
use Rattle.std.specs.Prelude.{Bool, ◌||◌, ℤ, pos, replicate, ℕ}
use Rattle.std.specs.Int.Signed.{lt_z}
use Rattle.laws.specs.Signed.{minus}
use Rattle.settings.specs.declared.Limits.{Limits}
use Rattle.settings.specs.declared.Settings.{Settings}

-- below the least or above the most of a range
abbrev pub outside : ℤ → ℤ → ℤ → Bool
outside least most z = lt_z z least || lt_z most z

-- refusal 1, "a setting is outside its range": "Threshold T 1 to 255. Floor Cmin -1,000 to 0. Dmiss 1 to 3,600 seconds. Dconn 1 to 62
-- minutes. Eight 32-bit round keys, free."
unfoldable pub bad_limits : Limits → Bool
bad_limits l =
    outside (pos 1) (pos 255) (pos l.threshold) || outside (minus 1000) (pos 0) l.floor || outside (pos 1) (pos 3600) (pos l.dmiss)
    || outside (pos 1) (pos 62) (pos l.dconn)

-- "The factory settings belong to the settings type itself: T 10, Cmin -20, Dmiss 60, Dconn 10, keys all zero." Document 02, K2: "the
-- factory T becomes 5". Settings are made of these by name, so that no number is said twice.
abbrev pub factory_settings : Settings
factory_settings = record { keys = replicate 8 0; limits = record { threshold = 5; floor = minus 20; dmiss = 60; dconn = 10 } }

-- the same settings with another T
abbrev pub with_threshold : ℕ → Settings → Settings
with_threshold threshold set =
    record {
      keys = set.keys;
      limits = record {
        threshold = threshold;
        floor = set.limits.floor;
        dmiss = set.limits.dmiss;
        dconn = set.limits.dconn;
      };
    }
