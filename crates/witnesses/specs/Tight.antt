-- Two runs of one small gateway: T is 2, the other settings are the factory's, keys all zero; 16 records, one line of four entries. In the
-- first a machine gets all that demand 3 allows, with each of D, H and R above 0, and not one more; in the second it is blocked after
-- exactly T.
-- Assumes nothing.
use Rattle.std.specs.Prelude.{List, [], ◌∷◌, ℕ, ◌/◌, ◌%◌, pos, replicate}
use Rattle.settings.specs.Settings.{factory_settings, with_threshold}
use Rattle.tables.specs.Tables.{tables_of}
use Rattle.history.specs.Runs.{Call, packet_at, why_at}
use Rattle.promises.specs.Demand3.{Gateway}

-- cell 10.0.0.0/8, plant 192.168.0.0/16, and a cold start at second 100
abbrev pub gateway : Gateway
gateway =
    record {
      settings = with_threshold 2 factory_settings;
      cell = 10 ∷ 0 ∷ 0 ∷ 0 ∷ 8 ∷ [];
      plant = 192 ∷ 168 ∷ 0 ∷ 0 ∷ 16 ∷ [];
      tables = tables_of (replicate 16 0) (replicate 4 0) (replicate 4 (pos 0));
      clock = 0;
      began = 100;
    }

-- a TCP packet between 10.0.0.number, port 40000, and a port of 192.168.0.1: a SYN to the plant, and its SYN+ACK back
abbrev pub syn : ℕ → ℕ → List ℕ
syn number port =
    0x45 ∷ 0 ∷ 0 ∷ 40 ∷ 0 ∷ 0 ∷ 0 ∷ 0 ∷ 64 ∷ 6 ∷ 0 ∷ 0 ∷ 10 ∷ 0 ∷ 0 ∷ number ∷ 192 ∷ 168 ∷ 0 ∷ 1 ∷
    0x9C ∷ 0x40 ∷ port / 256 ∷ port % 256 ∷ 0 ∷ 0 ∷ 0 ∷ 0 ∷ 0 ∷ 0 ∷ 0 ∷ 0 ∷ 0x50 ∷ 2 ∷ 0 ∷ 0 ∷ 0 ∷ 0 ∷ 0 ∷ 0 ∷ []

abbrev pub syn_ack_back : ℕ → ℕ → List ℕ
syn_ack_back number port =
    0x45 ∷ 0 ∷ 0 ∷ 40 ∷ 0 ∷ 0 ∷ 0 ∷ 0 ∷ 64 ∷ 6 ∷ 0 ∷ 0 ∷ 192 ∷ 168 ∷ 0 ∷ 1 ∷ 10 ∷ 0 ∷ 0 ∷ number ∷
    port / 256 ∷ port % 256 ∷ 0x9C ∷ 0x40 ∷ 0 ∷ 0 ∷ 0 ∷ 0 ∷ 0 ∷ 0 ∷ 0 ∷ 0 ∷ 0x50 ∷ 18 ∷ 0 ∷ 0 ∷ 0 ∷ 0 ∷ 0 ∷ 0 ∷ []

-- the machine of which demand 3 is asked: 10.0.0.1
abbrev pub machine : ℕ
machine = 0x0A000001

-- ---- all that is allowed (newest first, the verdicts beside)
abbrev pub allowed : List Call
allowed =
    packet_at 120 (syn 1 2049) ∷  -- 6: it has had all
    packet_at 120 (syn 1 2049) ∷  -- 4
    packet_at 120 (syn 1 27017) ∷  -- 4: its count was forgotten (R)
    packet_at 120 (syn 5 6379) ∷  -- 4, and 10.0.0.1 is named as replaced
    packet_at 120 (syn 4 4840) ∷  -- 4
    packet_at 120 (syn 4 6379) ∷  -- 4
    packet_at 120 (syn 3 4840) ∷  -- 4
    packet_at 120 (syn 3 6379) ∷  -- 4
    packet_at 120 (syn 2 4840) ∷  -- 4
    packet_at 120 (syn 2 6379) ∷  -- 4
    packet_at 120 (syn 1 5432) ∷  -- 4: a multiple of Dmiss was passed (D)
    packet_at 100 (syn 1 80) ∷  -- 4: the second of T
    packet_at 100 (syn 1 11211) ∷  -- 4: and another
    packet_at 100 (syn 1 4840) ∷  -- 4: a contact that the answer earned (H)
    packet_at 100 (syn_ack_back 1 6379) ∷  -- 3: an answer earns two
    packet_at 100 (syn 1 6379) ∷ []  -- 4: the first of T

-- ---- blocked after exactly T
abbrev pub exactly : List Call
exactly =
    packet_at 100 (syn 1 11211) ∷  -- 6
    why_at 100 (syn 1 11211) ∷  -- the question why, asked first: it changes nothing
    packet_at 100 (syn 1 4840) ∷  -- 4
    packet_at 100 (syn 1 6379) ∷ []  -- 4
