-- Document 01, "Permutation, slot and line": slot, line and tag, and the way back. No table has 0 records or 0 lines; there these
-- definitions go by antt's n % 0 = n and n / 0 = 0.
-- Assumes nothing.
use Rattle.std.specs.Prelude.{List, ℕ, ◌+◌, ◌*◌, ◌/◌, ◌%◌, ◌^◌}
use Rattle.std.specs.Int.Bits.{bit_xor}
use Rattle.places.specs.declared.Place.{Place}
use Rattle.permute.specs.Permutation.{E, D}

-- "Slot: E(E(E(plant address) xor cell address) xor port) modulo the number of records."
unfoldable pub slot_of : List ℕ → ℕ → ℕ → ℕ → ℕ → ℕ
slot_of keys plant cell port records = E keys (bit_xor (E keys (bit_xor (E keys plant) cell)) port) % records

-- "With 2^a lines, the line of a cell address is E(address) modulo 2^a and its tag the quotient."
unfoldable pub place_of : List ℕ → ℕ → ℕ → Place
place_of keys address lines = record { line = E keys address % lines; tag = E keys address / lines }

-- "recovered by the inverse from line and tag (tag modulo 2^(32-a))": with 2^a lines there are 2^32 / 2^a tags
unfoldable pub address_of : List ℕ → Place → ℕ → ℕ
address_of keys place lines = D keys ((place.tag % (2 ^ 32 / lines) * lines + place.line) % 2 ^ 32)
