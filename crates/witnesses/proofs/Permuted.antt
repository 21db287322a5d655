-- The permutation, once for each word that the runs and the case of this crate permute.
-- Assumes nothing.
use mathlib.Core.List.{List}
use mathlib.Core.Path.{◌≡◌, refl}
use Prim.Native.Nat.{ℕ}
use lib.ListN.{replicate}
use Rattle.permute.specs.Permutation.{boxes, nibbles, round, rounds}
use Rattle.permute.specs.Permutation as permutation

-- keys all zero
abbrev pub zeros : List ℕ
zeros = replicate 8 0

-- by what the word is for: the plant address; that with a machine's; that with a port, for a slot; and a machine's address, for its line and tag
pub record Words : Type 0 where
  pub plant : permutation.E zeros 0xC0A80001 ≡ 0x62724ECF
  pub plant_and_1 : permutation.E zeros 0x68724ECE ≡ 0x49433CB9
  pub plant_and_2 : permutation.E zeros 0x68724ECD ≡ 0x550DBCB9
  pub plant_and_3 : permutation.E zeros 0x68724ECC ≡ 0xCC0DBCBD
  pub plant_and_4 : permutation.E zeros 0x68724ECB ≡ 0x300DBCBF
  pub plant_and_5 : permutation.E zeros 0x68724ECA ≡ 0x8F0DBCBD
  pub slot_1_80 : permutation.E zeros 0x49433CE9 ≡ 0x0DB16E70
  pub slot_1_2049 : permutation.E zeros 0x494334B8 ≡ 0xEA986501
  pub slot_1_4840 : permutation.E zeros 0x49432E51 ≡ 0x72001C82
  pub slot_1_5432 : permutation.E zeros 0x49432981 ≡ 0x3E801D59
  pub slot_1_6379 : permutation.E zeros 0x49432452 ≡ 0xE203CD58
  pub slot_1_11211 : permutation.E zeros 0x49431772 ≡ 0xD0839F94
  pub slot_1_27017 : permutation.E zeros 0x49435530 ≡ 0x0F43BA55
  pub slot_2_4840 : permutation.E zeros 0x550DAE51 ≡ 0xB8504377
  pub slot_2_6379 : permutation.E zeros 0x550DA452 ≡ 0xF1801B7E
  pub slot_3_4840 : permutation.E zeros 0xCC0DAE55 ≡ 0x536F2A6B
  pub slot_3_6379 : permutation.E zeros 0xCC0DA456 ≡ 0x20CE7826
  pub slot_4_4840 : permutation.E zeros 0x300DAE57 ≡ 0x66227F23
  pub slot_4_6379 : permutation.E zeros 0x300DA454 ≡ 0x5CAA7DED
  pub slot_5_6379 : permutation.E zeros 0x8F0DA456 ≡ 0x9A801B7F
  pub machine_1 : permutation.E zeros 0x0A000001 ≡ 0xFCE676E6
  pub machine_2 : permutation.E zeros 0x0A000002 ≡ 0x732FCEE7
  pub machine_3 : permutation.E zeros 0x0A000003 ≡ 0xF90E4EE6
  pub machine_4 : permutation.E zeros 0x0A000004 ≡ 0x83294EE6
  pub machine_5 : permutation.E zeros 0x0A000005 ≡ 0xC0FE76E7

pub permuted : Words
unfolding boxes nibbles round rounds permutation.E
permuted =
    record {
      plant = refl;
      plant_and_1 = refl;
      plant_and_2 = refl;
      plant_and_3 = refl;
      plant_and_4 = refl;
      plant_and_5 = refl;
      slot_1_80 = refl;
      slot_1_2049 = refl;
      slot_1_4840 = refl;
      slot_1_5432 = refl;
      slot_1_6379 = refl;
      slot_1_11211 = refl;
      slot_1_27017 = refl;
      slot_2_4840 = refl;
      slot_2_6379 = refl;
      slot_3_4840 = refl;
      slot_3_6379 = refl;
      slot_4_4840 = refl;
      slot_4_6379 = refl;
      slot_5_6379 = refl;
      machine_1 = refl;
      machine_2 = refl;
      machine_3 = refl;
      machine_4 = refl;
      machine_5 = refl;
    }
