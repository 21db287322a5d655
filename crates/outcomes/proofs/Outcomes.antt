-- For every public function and every From of a library, but for those that are named below with the reason: two outcomes that its
-- contract allows are equal. An outcome is what is returned and all that is left in lent memory; `Learnt` is what a contract tells its
-- caller. tools/one-outcome writes this file from the sources.
-- Assumes nothing.
use Rattle.arguments.proofs.record_number.Reads as arguments_record_number
use Rattle.capture.proofs.next.Reads as capture_next
use Rattle.capture.proofs.open.Reads as capture_open
use Rattle.capture.proofs.put_header.Reads as capture_put_header
use Rattle.capture.proofs.put_record.Reads as capture_put_record
use Rattle.capture.specs.Writing.{put_of}
use Rattle.cold.proofs.fill.Reads as cold_fill
use Rattle.counts.proofs.decay_all.Reads as counts_decay_all
use Rattle.counts.proofs.decayed.Reads as counts_decayed
use Rattle.counts.proofs.is_blocked.Reads as counts_is_blocked
use Rattle.counts.proofs.is_empty.Reads as counts_is_empty
use Rattle.counts.proofs.lowered.Reads as counts_lowered
use Rattle.counts.proofs.raised.Reads as counts_raised
use Rattle.embed.proofs.plain.PlainAnswerFromResultAnswerRefusal.from.Reads as embed_plain_plainanswer_from_result_answer_refusal
use Rattle.embed.proofs.plain.PlainNextFromReading.from.Reads as embed_plain_plainnext_from_reading
use Rattle.embed.proofs.plain.PlainOpeningFromResultCursorRefusal.from.Reads as embed_plain_plainopening_from_result_cursor_refusal
use Rattle.embed.proofs.plain.PlainWinnerFromOptionWinning.from.Reads as embed_plain_plainwinner_from_option_winning
use Rattle.embed.proofs.plain.PlainWrittenFromResultUsizeRefusal.from.Reads as embed_plain_plainwritten_from_result_usize_refusal
use Rattle.embed.proofs.plain.of_reply.Reads as embed_plain_of_reply
use Rattle.embed.proofs.plain.tally_with.Reads as embed_plain_tally_with
use Rattle.embed.proofs.spritgrommet_cold_start.Reads as embed_spritgrommet_cold_start
use Rattle.embed.proofs.spritgrommet_decrypt.Reads as embed_spritgrommet_decrypt
use Rattle.embed.proofs.spritgrommet_encrypt.Reads as embed_spritgrommet_encrypt
use Rattle.embed.proofs.spritgrommet_factory.Reads as embed_spritgrommet_factory
use Rattle.embed.proofs.spritgrommet_judge.Reads as embed_spritgrommet_judge
use Rattle.embed.proofs.spritgrommet_judge_frame.Reads as embed_spritgrommet_judge_frame
use Rattle.embed.proofs.spritgrommet_next.Reads as embed_spritgrommet_next
use Rattle.embed.proofs.spritgrommet_open.Reads as embed_spritgrommet_open
use Rattle.embed.proofs.spritgrommet_pass.Reads as embed_spritgrommet_pass
use Rattle.embed.proofs.spritgrommet_put_header.Reads as embed_spritgrommet_put_header
use Rattle.embed.proofs.spritgrommet_put_record.Reads as embed_spritgrommet_put_record
use Rattle.embed.proofs.spritgrommet_tally.Reads as embed_spritgrommet_tally
use Rattle.embed.proofs.spritgrommet_winner.Reads as embed_spritgrommet_winner
use Rattle.embed.specs.Plain.{plain_put_of}
use Rattle.embed_why.proofs.plain.PlainReasonFromDrop.from.Reads as embed_why_plain_plainreason_from_drop
use Rattle.embed_why.proofs.plain.PlainReasonFromResultExplanationRefusal.from.Reads as embed_why_plain_plainreason_from_result_explanation_refusal
use Rattle.embed_why.proofs.spritgrommet_why.Reads as embed_why_spritgrommet_why
use Rattle.embed_why.proofs.spritgrommet_why_frame.Reads as embed_why_spritgrommet_why_frame
use Rattle.endings.proofs.one_more.Reads as endings_one_more
use Rattle.endings.proofs.put_ending.Reads as endings_put_ending
use Rattle.endings.proofs.put_refused_header.Reads as endings_put_refused_header
use Rattle.entries.proofs.count_of.Reads as entries_count_of
use Rattle.entries.proofs.write.Reads as entries_write
use Rattle.entries.specs.Entries.{written_of}
use Rattle.explanations.proofs.put_asked.Reads as explanations_put_asked
use Rattle.explanations.proofs.put_refused.Reads as explanations_put_refused
use Rattle.feeding.proofs.feed.Reads as feeding_feed
use Rattle.feeding.specs.Feeding.{replayed_of}
use Rattle.frames.proofs.judge.Reads as frames_judge
use Rattle.frames.proofs.what_is_in.Reads as frames_what_is_in
use Rattle.frames.proofs.why.Reads as frames_why
use Rattle.gateway.proofs.Gateway.judge.Reads as gateway_gateway_judge
use Rattle.gateway.proofs.Gateway.pass.Reads as gateway_gateway_pass
use Rattle.gateway.proofs.Gateway.start.Reads as gateway_gateway_start
use Rattle.gateway.proofs.Gateway.view.Reads as gateway_gateway_view
use Rattle.gateway.proofs.View.why.Reads as gateway_view_why
use Rattle.gateway.specs.Calls.{after_call}
use Rattle.gateway.specs.Calls.{left}
use Rattle.gateway.specs.Calls.{seen_in}
use Rattle.gateway.specs.Calls.{state_in}
use Rattle.lines.proofs.Room.byte.Reads as lines_room_byte
use Rattle.lines.proofs.Room.decimal.Reads as lines_room_decimal
use Rattle.lines.proofs.Room.dotted.Reads as lines_room_dotted
use Rattle.lines.proofs.Room.last_line.Reads as lines_room_last_line
use Rattle.lines.proofs.Room.line.Reads as lines_room_line
use Rattle.lines.proofs.Room.refused_line.Reads as lines_room_refused_line
use Rattle.lines.proofs.Room.signed.Reads as lines_room_signed
use Rattle.lines.proofs.Room.text.Reads as lines_room_text
use Rattle.lines.specs.Room.{left_room}
use Rattle.lines.specs.Rooms.{room_in}
use Rattle.outputs.proofs.asks_why.Reads as outputs_asks_why
use Rattle.outputs.proofs.put_opening.Reads as outputs_put_opening
use Rattle.outputs.proofs.put_told.Reads as outputs_put_told
use Rattle.packet.proofs.Header.port.Reads as packet_header_port
use Rattle.packet.proofs.kinds.of_flags.Reads as packet_kinds_of_flags
use Rattle.packet.proofs.read.Reads as packet_read
use Rattle.permute.proofs.decrypt.Reads as permute_decrypt
use Rattle.permute.proofs.encrypt.Reads as permute_encrypt
use Rattle.places.proofs.address_of.Reads as places_address_of
use Rattle.places.proofs.place_of.Reads as places_place_of
use Rattle.places.proofs.slot.Reads as places_slot
use Rattle.reasons.proofs.report.Reads as reasons_report
use Rattle.records.proofs.age_all.Reads as records_age_all
use Rattle.records.proofs.aged.Reads as records_aged
use Rattle.records.proofs.marks_of.Reads as records_marks_of
use Rattle.records.proofs.renewed.Reads as records_renewed
use Rattle.refusals.proofs.of_packet.Reads as refusals_of_packet
use Rattle.refusals.proofs.of_start.Reads as refusals_of_start
use Rattle.refusals.proofs.of_time.Reads as refusals_of_time
use Rattle.refused.proofs.U8FromRefusal.from.Reads as refused_u8_from_refusal
use Rattle.replay.proofs.next.Reads as replay_next
use Rattle.replay.proofs.program_placing.Reads as replay_program_placing
use Rattle.rulings.proofs.ruling_of.Reads as rulings_ruling_of
use Rattle.settings.proofs.Limits.is_bad.Reads as settings_limits_is_bad
use Rattle.settings.proofs.Settings.factory.Reads as settings_settings_factory
use Rattle.settings.proofs.Settings.with_threshold.Reads as settings_settings_with_threshold
use Rattle.sides.proofs.bad_list.Reads as sides_bad_list
use Rattle.sides.proofs.direction_between.Reads as sides_direction_between
use Rattle.sides.proofs.entry_in.Reads as sides_entry_in
use Rattle.sides.proofs.winner.Reads as sides_winner
use Rattle.sides.proofs.winning_entry.Reads as sides_winning_entry
use Rattle.streams.proofs.shift.Reads as streams_shift
use Rattle.streams.proofs.within.Reads as streams_within
use Rattle.streams.specs.Streams.{held_of}
use Rattle.tables.proofs.clock.multiples_passed.Reads as tables_clock_multiples_passed
use Rattle.tables.proofs.clock.pass.Reads as tables_clock_pass
use Rattle.tables.proofs.sizes.Sizes.are_bad.Reads as tables_sizes_sizes_are_bad
use Rattle.tables.specs.Clock.{timed_of}
use Rattle.tables.specs.Tables.{left_tables}
use Rattle.tally.proofs.Tally.empty.Reads as tally_tally_empty
use Rattle.tally.proofs.Tally.with.Reads as tally_tally_with
use Rattle.tally.proofs.Tally.with_verdict.Reads as tally_tally_with_verdict
use Rattle.turns.proofs.begin.Reads as turns_begin
use Rattle.turns.proofs.beginning_goes_to.Reads as turns_beginning_goes_to
use Rattle.turns.proofs.ending_goes_to.Reads as turns_ending_goes_to
use Rattle.turns.proofs.first.Reads as turns_first
use Rattle.turns.proofs.goes_on.Reads as turns_goes_on
use Rattle.turns.proofs.is_early.Reads as turns_is_early
use Rattle.turns.proofs.is_sound.Reads as turns_is_sound
use Rattle.turns.proofs.lacks_header.Reads as turns_lacks_header
use Rattle.turns.proofs.put_end.Reads as turns_put_end
use Rattle.turns.proofs.put_lost.Reads as turns_put_lost
use Rattle.turns.proofs.put_missing.Reads as turns_put_missing
use Rattle.turns.proofs.refilled.Reads as turns_refilled
use Rattle.turns.proofs.take.Reads as turns_take
use Rattle.turns.proofs.written.Reads as turns_written
use Rattle.turns.specs.Turns.{beginning_of}
use Rattle.turns.specs.Turns.{turn_of}
use Rattle.verdicts.proofs.U8FromVerdict.from.Reads as verdicts_u8_from_verdict
use Rattle.verdicts.proofs.is_dropped.Reads as verdicts_is_dropped
use Rattle.verdicts.proofs.number.Reads as verdicts_number
use Rattle.verdicts.proofs.record_after.Reads as verdicts_record_after
use Rattle.verdicts.proofs.verdict_of.Reads as verdicts_verdict_of
use Rattle.words.proofs.four_at.Reads as words_four_at
use Rattle.words.proofs.four_in.Reads as words_four_in
use Rattle.words.proofs.has_room.Reads as words_has_room
use Rattle.words.proofs.of_four.Reads as words_of_four
use Rattle.words.proofs.store.Reads as words_store
use Rattle.words.proofs.store_four.Reads as words_store_four
use Rattle.words.proofs.store_two.Reads as words_store_two
use Rattle.words.proofs.two_at.Reads as words_two_at
use Rattle.words.proofs.two_in.Reads as words_two_in
use denote.Triple.Both.{Both}
use mathlib.Core.Path.{◌≡◌, sym, ◌∙◌}

-- what is allowed determines the outcome
abbrev One {ℓ m} : {X : Type ℓ} {S : Type m} {O : Type 0} → (X → S → Type 0) → (X → S → O) → Type (ℓ ⊔ m)
One {X = X} {S = S} allowed outcome = (x y : X) (s t : S) → allowed x s → allowed y t → outcome x s ≡ outcome y t

-- what is lent, where only its exit is looked at
abbrev both : {A : Type 0} → A → Both A A
both x = record { entry = x; exit = x }

-- the one lemma: a contract is an equation of its outcome with a definition's value at the entry
same : {O : Type 0} {x y d : O} → x ≡ d → y ≡ d → x ≡ y
same p q = p ∙ sym q

pub refused_u8_from_refusal_one : (κs : _) (a : _) → One (refused_u8_from_refusal.Learnt κs a) (λ x s. x)
refused_u8_from_refusal_one κs a x y s t p q = same p q

pub words_of_four_one : (κs : _) (a : _) → One (words_of_four.Learnt κs a) (λ x s. x)
words_of_four_one κs a x y s t p q = same p q

pub words_two_in_one : (κs : _) (a : _) → One (words_two_in.Learnt κs a) (λ x s. x)
words_two_in_one κs a x y s t p q = same p q

pub words_four_in_one : (κs : _) (a : _) → One (words_four_in.Learnt κs a) (λ x s. x)
words_four_in_one κs a x y s t p q = same p q

pub words_two_at_one : (κs : _) (a : _) → One (words_two_at.Learnt κs a) (λ x s. x)
words_two_at_one κs a x y s t p q = same p q

pub words_four_at_one : (κs : _) (a : _) → One (words_four_at.Learnt κs a) (λ x s. x)
words_four_at_one κs a x y s t p q = same p q

pub words_has_room_one : (κs : _) (a : _) → One (words_has_room.Learnt κs a) (λ x s. x)
words_has_room_one κs a x y s t p q = same p q

pub words_store_one : (κs : _) (a : _) → One (words_store.Learnt κs a) (λ x s. s.0.now)
words_store_one κs a x y s t p q = same p q

pub words_store_two_one : (κs : _) (a : _) → One (words_store_two.Learnt κs a) (λ x s. s.0.now)
words_store_two_one κs a x y s t p q = same p q

pub words_store_four_one : (κs : _) (a : _) → One (words_store_four.Learnt κs a) (λ x s. s.0.now)
words_store_four_one κs a x y s t p q = same p q

pub settings_settings_factory_one : (κs : _) (a : _) → One (settings_settings_factory.Learnt κs a) (λ x s. x)
settings_settings_factory_one κs a x y s t p q = same p.0 q.0

pub settings_settings_with_threshold_one : (κs : _) (a : _) → One (settings_settings_with_threshold.Learnt κs a) (λ x s. x)
settings_settings_with_threshold_one κs a x y s t p q = same p q

pub settings_limits_is_bad_one : (κs : _) (a : _) → One (settings_limits_is_bad.Learnt κs a) (λ x s. x)
settings_limits_is_bad_one κs a x y s t p q = same p q

pub permute_encrypt_one : (κs : _) (a : _) → One (permute_encrypt.Learnt κs a) (λ x s. x)
permute_encrypt_one κs a x y s t p q = same p q

pub permute_decrypt_one : (κs : _) (a : _) → One (permute_decrypt.Learnt κs a) (λ x s. x)
permute_decrypt_one κs a x y s t p q = same p q

pub places_slot_one : (κs : _) (a : _) → One (places_slot.Learnt κs a) (λ x s. x)
places_slot_one κs a x y s t p q = same p q

pub places_place_of_one : (κs : _) (a : _) → One (places_place_of.Learnt κs a) (λ x s. x)
places_place_of_one κs a x y s t p q = same p q

pub places_address_of_one : (κs : _) (a : _) → One (places_address_of.Learnt κs a) (λ x s. x)
places_address_of_one κs a x y s t p q = same p q

pub sides_bad_list_one : (κs : _) (a : _) → One (sides_bad_list.Learnt κs a) (λ x s. x)
sides_bad_list_one κs a x y s t p q = same p q

pub sides_winner_one_part : (κs : _) (a : _) → One (sides_winner.Learnt κs a) (λ x s. x.now)
sides_winner_one_part κs a x y s t p q = same p.0 q.0

pub sides_winner_one_place : (κs : _) (a : _) → One (sides_winner.Learnt κs a) (λ x s. x.ref_ptr)
sides_winner_one_place κs a x y s t p q = same p.1 q.1

pub sides_winning_entry_one : (κs : _) (a : _) → One (sides_winning_entry.Learnt κs a) (λ x s. x)
sides_winning_entry_one κs a x y s t p q = same p q

pub sides_entry_in_one : (κs : _) (a : _) → One (sides_entry_in.Learnt κs a) (λ x s. x)
sides_entry_in_one κs a x y s t p q = same p q

pub sides_direction_between_one : (κs : _) (a : _) → One (sides_direction_between.Learnt κs a) (λ x s. x)
sides_direction_between_one κs a x y s t p q = same p q

pub packet_kinds_of_flags_one : (κs : _) (a : _) → One (packet_kinds_of_flags.Learnt κs a) (λ x s. x)
packet_kinds_of_flags_one κs a x y s t p q = same p q

pub packet_read_one : (κs : _) (a : _) → One (packet_read.Learnt κs a) (λ x s. x)
packet_read_one κs a x y s t p q = same p q

pub packet_header_port_one : (κs : _) (a : _) → One (packet_header_port.Learnt κs a) (λ x s. x)
packet_header_port_one κs a x y s t p q = same p q

pub capture_open_one : (κs : _) (a : _) → One (capture_open.Learnt κs a) (λ x s. x)
capture_open_one κs a x y s t p q = same p q

pub capture_next_one : (κs : _) (a : _) → One (capture_next.Learnt κs a) (λ x s. x)
capture_next_one κs a x y s t p q = same p q

pub capture_put_header_one : (κs : _) (a : _) → One (capture_put_header.Learnt κs a) (λ x s. put_of x s.0.now)
capture_put_header_one κs a x y s t p q = same p q

pub capture_put_record_one : (κs : _) (a : _) → One (capture_put_record.Learnt κs a) (λ x s. put_of x s.0.now)
capture_put_record_one κs a x y s t p q = same p q

pub records_marks_of_one : (κs : _) (a : _) → One (records_marks_of.Learnt κs a) (λ x s. x)
records_marks_of_one κs a x y s t p q = same p q

pub records_renewed_one : (κs : _) (a : _) → One (records_renewed.Learnt κs a) (λ x s. x)
records_renewed_one κs a x y s t p q = same p q

pub records_aged_one : (κs : _) (a : _) → One (records_aged.Learnt κs a) (λ x s. x)
records_aged_one κs a x y s t p q = same p q

pub records_age_all_one : (κs : _) (a : _) → One (records_age_all.Learnt κs a) (λ x s. s.0.now)
records_age_all_one κs a x y s t p q = same p q

pub counts_is_empty_one : (κs : _) (a : _) → One (counts_is_empty.Learnt κs a) (λ x s. x)
counts_is_empty_one κs a x y s t p q = same p q

pub counts_is_blocked_one : (κs : _) (a : _) → One (counts_is_blocked.Learnt κs a) (λ x s. x)
counts_is_blocked_one κs a x y s t p q = same p q

pub counts_lowered_one : (κs : _) (a : _) → One (counts_lowered.Learnt κs a) (λ x s. x)
counts_lowered_one κs a x y s t p q = same p q

pub counts_raised_one : (κs : _) (a : _) → One (counts_raised.Learnt κs a) (λ x s. x)
counts_raised_one κs a x y s t p q = same p q

pub counts_decayed_one : (κs : _) (a : _) → One (counts_decayed.Learnt κs a) (λ x s. x)
counts_decayed_one κs a x y s t p q = same p q

pub counts_decay_all_one : (κs : _) (a : _) → One (counts_decay_all.Learnt κs a) (λ x s. s.0.now)
counts_decay_all_one κs a x y s t p q = same p q

pub entries_count_of_one : (κs : _) (a : _) → One (entries_count_of.Learnt κs a) (λ x s. x)
entries_count_of_one κs a x y s t p q = same p q

pub entries_write_one : (κs : _) (a : _) → One (entries_write.Learnt κs a) (λ x s. written_of x s.0.now s.1.0.now)
entries_write_one κs a x y s t p q = same p q

pub tables_clock_multiples_passed_one : (κs : _) (a : _) → One (tables_clock_multiples_passed.Learnt κs a) (λ x s. x)
tables_clock_multiples_passed_one κs a x y s t p q = same p q

pub tables_clock_pass_one : (κs : _) (a : _) → One (tables_clock_pass.Learnt κs a) (λ x s. timed_of s.0.now s.1.0.now s.1.1.0.now)
tables_clock_pass_one κs a x y s t p q = same p q

pub tables_sizes_sizes_are_bad_one : (κs : _) (a : _) → One (tables_sizes_sizes_are_bad.Learnt κs a) (λ x s. x)
tables_sizes_sizes_are_bad_one κs a x y s t p q = same p q

pub verdicts_number_one : (κs : _) (a : _) → One (verdicts_number.Learnt κs a) (λ x s. x)
verdicts_number_one κs a x y s t p q = same p q

pub verdicts_is_dropped_one : (κs : _) (a : _) → One (verdicts_is_dropped.Learnt κs a) (λ x s. x)
verdicts_is_dropped_one κs a x y s t p q = same p q

pub verdicts_verdict_of_one : (κs : _) (a : _) → One (verdicts_verdict_of.Learnt κs a) (λ x s. x)
verdicts_verdict_of_one κs a x y s t p q = same p q

pub verdicts_record_after_one : (κs : _) (a : _) → One (verdicts_record_after.Learnt κs a) (λ x s. x)
verdicts_record_after_one κs a x y s t p q = same p q

pub verdicts_u8_from_verdict_one : (κs : _) (a : _) → One (verdicts_u8_from_verdict.Learnt κs a) (λ x s. x)
verdicts_u8_from_verdict_one κs a x y s t p q = same p q

pub reasons_report_one : (κs : _) (a : _) → One (reasons_report.Learnt κs a) (λ x s. x)
reasons_report_one κs a x y s t p q = same p q

pub rulings_ruling_of_one : (κs : _) (a : _) → One (rulings_ruling_of.Learnt κs a) (λ x s. x)
rulings_ruling_of_one κs a x y s t p q = same p q

pub lines_room_byte_one : (κs : _) (a : _) → One (lines_room_byte.Learnt κs a) (λ x s. room_in s.0.now)
lines_room_byte_one κs a x y s t p q = same p.1 q.1

pub lines_room_text_one : (κs : _) (a : _) → One (lines_room_text.Learnt κs a) (λ x s. room_in s.0.now)
lines_room_text_one κs a x y s t p q = same p.1 q.1

pub lines_room_decimal_one : (κs : _) (a : _) → One (lines_room_decimal.Learnt κs a) (λ x s. room_in s.0.now)
lines_room_decimal_one κs a x y s t p q = same p.1 q.1

pub lines_room_signed_one : (κs : _) (a : _) → One (lines_room_signed.Learnt κs a) (λ x s. room_in s.0.now)
lines_room_signed_one κs a x y s t p q = same p.1 q.1

pub lines_room_dotted_one : (κs : _) (a : _) → One (lines_room_dotted.Learnt κs a) (λ x s. room_in s.0.now)
lines_room_dotted_one κs a x y s t p q = same p.1 q.1

pub lines_room_refused_line_one : (κs : _) (a : _) → One (lines_room_refused_line.Learnt κs a) (λ x s. room_in s.0.now)
lines_room_refused_line_one κs a x y s t p q = same p.1 q.1

pub lines_room_line_one : (κs : _) (a : _) → One (lines_room_line.Learnt κs a) (λ x s. room_in s.0.now)
lines_room_line_one κs a x y s t p q = same p.1 q.1

pub lines_room_last_line_one : (κs : _) (a : _) → One (lines_room_last_line.Learnt κs a) (λ x s. room_in s.0.now)
lines_room_last_line_one κs a x y s t p q = same p.1 q.1

pub arguments_record_number_one : (κs : _) (a : _) → One (arguments_record_number.Learnt κs a) (λ x s. x)
arguments_record_number_one κs a x y s t p q = same p q

pub explanations_put_refused_one : (κs : _) (a : _) → One (explanations_put_refused.Learnt κs a) (λ x s. room_in s.0.now)
explanations_put_refused_one κs a x y s t p q = same p.1 q.1

pub explanations_put_asked_one : (κs : _) (a : _) → One (explanations_put_asked.Learnt κs a) (λ x s. room_in s.0.now)
explanations_put_asked_one κs a x y s t p q = same p.1 q.1

pub cold_fill_one : (κs : _) (a : _) → One (cold_fill.Learnt κs a) (λ x s. left_tables (both s.0) (both s.1.0) (both s.1.1.0))
cold_fill_one κs a x y s t p q = same p q

pub refusals_of_start_one : (κs : _) (a : _) → One (refusals_of_start.Learnt κs a) (λ x s. x)
refusals_of_start_one κs a x y s t p q = same p q

pub refusals_of_time_one : (κs : _) (a : _) → One (refusals_of_time.Learnt κs a) (λ x s. x)
refusals_of_time_one κs a x y s t p q = same p q

pub refusals_of_packet_one : (κs : _) (a : _) → One (refusals_of_packet.Learnt κs a) (λ x s. x)
refusals_of_packet_one κs a x y s t p q = same p q

pub gateway_gateway_start_one : (κs : _) (a : _) → One (gateway_gateway_start.Learnt κs a) (λ x s. after_call x (state_in s.0.now))
gateway_gateway_start_one κs a x y s t p q = same p.1 q.1

pub gateway_gateway_pass_one : (κs : _) (a : _) → One (gateway_gateway_pass.Learnt κs a) (λ x s. after_call x (state_in s.0.now))
gateway_gateway_pass_one κs a x y s t p q = same p.1 q.1

pub gateway_gateway_judge_one : (κs : _) (a : _) → One (gateway_gateway_judge.Learnt κs a) (λ x s. after_call x (state_in s.0.now))
gateway_gateway_judge_one κs a x y s t p q = same p.1 q.1

pub gateway_gateway_view_one : (κs : _) (a : _) → One (gateway_gateway_view.Learnt κs a) (λ x s. seen_in x)
gateway_gateway_view_one κs a x y s t p q = same p q

pub gateway_view_why_one : (κs : _) (a : _) → One (gateway_view_why.Learnt κs a) (λ x s. x)
gateway_view_why_one κs a x y s t p q = same p q

pub tally_tally_empty_one : (κs : _) (a : _) → One (tally_tally_empty.Learnt κs a) (λ x s. x)
tally_tally_empty_one κs a x y s t p q = same p q

pub tally_tally_with_verdict_one : (κs : _) (a : _) → One (tally_tally_with_verdict.Learnt κs a) (λ x s. x)
tally_tally_with_verdict_one κs a x y s t p q = same p q

pub tally_tally_with_one : (κs : _) (a : _) → One (tally_tally_with.Learnt κs a) (λ x s. x)
tally_tally_with_one κs a x y s t p q = same p q

pub frames_what_is_in_one : (κs : _) (a : _) → One (frames_what_is_in.Learnt κs a) (λ x s. x)
frames_what_is_in_one κs a x y s t p q = same p q

pub frames_judge_one : (κs : _) (a : _) → One (frames_judge.Learnt κs a) (λ x s. after_call x (state_in s.0.now))
frames_judge_one κs a x y s t p q = same p.1 q.1

pub frames_why_one : (κs : _) (a : _) → One (frames_why.Learnt κs a) (λ x s. x)
frames_why_one κs a x y s t p q = same p q

pub replay_program_placing_one : (κs : _) (a : _) → One (replay_program_placing.Learnt κs a) (λ x s. x)
replay_program_placing_one κs a x y s t p q = same p q

pub replay_next_one : (κs : _) (a : _) → One (replay_next.Learnt κs a) (λ x s. after_call x (state_in s.1.1.1.1.0.now))
replay_next_one κs a x y s t p q = same p.1 q.1

pub outputs_asks_why_one : (κs : _) (a : _) → One (outputs_asks_why.Learnt κs a) (λ x s. x)
outputs_asks_why_one κs a x y s t p q = same p q

pub outputs_put_told_one : (κs : _) (a : _) → One (outputs_put_told.Learnt κs a) (λ x s. room_in s.1.0.now)
outputs_put_told_one κs a x y s t p q = same p.1 q.1

pub outputs_put_opening_one : (κs : _) (a : _) → One (outputs_put_opening.Learnt κs a) (λ x s. room_in s.1.0.now)
outputs_put_opening_one κs a x y s t p q = same p.1 q.1

pub endings_one_more_one : (κs : _) (a : _) → One (endings_one_more.Learnt κs a) (λ x s. x)
endings_one_more_one κs a x y s t p q = same p q

pub endings_put_ending_one : (κs : _) (a : _) → One (endings_put_ending.Learnt κs a) (λ x s. room_in s.0.now)
endings_put_ending_one κs a x y s t p q = same p.1 q.1

pub endings_put_refused_header_one : (κs : _) (a : _) → One (endings_put_refused_header.Learnt κs a) (λ x s. room_in s.0.now)
endings_put_refused_header_one κs a x y s t p q = same p.1 q.1

pub feeding_feed_one : (κs : _) (a : _) → One (feeding_feed.Learnt κs a) (λ x s. replayed_of x s.1.1.1.0.now (state_in s.1.1.1.1.0.now))
feeding_feed_one κs a x y s t p q = same p.1 q.1

pub streams_shift_one : (κs : _) (a : _) → One (streams_shift.Learnt κs a) (λ x s. held_of x s.0.now)
streams_shift_one κs a x y s t p q = same p q

pub streams_within_one : (κs : _) (a : _) → One (streams_within.Learnt κs a) (λ x s. x)
streams_within_one κs a x y s t p q = same p.1 q.1

pub turns_first_one : (κs : _) (a : _) → One (turns_first.Learnt κs a) (λ x s. x)
turns_first_one κs a x y s t p q = same p q

pub turns_is_early_one : (κs : _) (a : _) → One (turns_is_early.Learnt κs a) (λ x s. x)
turns_is_early_one κs a x y s t p q = same p q

pub turns_refilled_one : (κs : _) (a : _) → One (turns_refilled.Learnt κs a) (λ x s. x)
turns_refilled_one κs a x y s t p q = same p q

pub turns_written_one : (κs : _) (a : _) → One (turns_written.Learnt κs a) (λ x s. x)
turns_written_one κs a x y s t p q = same p q

pub turns_is_sound_one : (κs : _) (a : _) → One (turns_is_sound.Learnt κs a) (λ x s. x)
turns_is_sound_one κs a x y s t p q = same p q

pub turns_goes_on_one : (κs : _) (a : _) → One (turns_goes_on.Learnt κs a) (λ x s. x)
turns_goes_on_one κs a x y s t p q = same p q

pub turns_lacks_header_one : (κs : _) (a : _) → One (turns_lacks_header.Learnt κs a) (λ x s. x)
turns_lacks_header_one κs a x y s t p q = same p q

pub turns_put_end_one : (κs : _) (a : _) → One (turns_put_end.Learnt κs a) (λ x s. left_room (both s.0) x)
turns_put_end_one κs a x y s t p q = same p q

pub turns_ending_goes_to_one : (κs : _) (a : _) → One (turns_ending_goes_to.Learnt κs a) (λ x s. x)
turns_ending_goes_to_one κs a x y s t p q = same p q

pub turns_beginning_goes_to_one : (κs : _) (a : _) → One (turns_beginning_goes_to.Learnt κs a) (λ x s. x)
turns_beginning_goes_to_one κs a x y s t p q = same p q

pub turns_put_missing_one : (κs : _) (a : _) → One (turns_put_missing.Learnt κs a) (λ x s. left_room (both s.1.0) x)
turns_put_missing_one κs a x y s t p q = same p q

pub turns_put_lost_one : (κs : _) (a : _) → One (turns_put_lost.Learnt κs a) (λ x s. left_room (both s.1.0) x)
turns_put_lost_one κs a x y s t p q = same p q

pub turns_begin_one : (κs : _) (a : _) → One (turns_begin.Learnt κs a) (λ x s. beginning_of x s.1.1.0.now)
turns_begin_one κs a x y s t p q = same p q

pub turns_take_one : (κs : _) (a : _) → One (turns_take.Learnt κs a) (λ x s. turn_of x s.1.0.now s.1.1.1.0.now (state_in s.1.1.1.1.0.now))
turns_take_one κs a x y s t p q = same p.1 q.1

pub embed_spritgrommet_factory_one : (κs : _) (a : _) → One (embed_spritgrommet_factory.Learnt κs a) (λ x s. x)
embed_spritgrommet_factory_one κs a x y s t p q = same p q

pub embed_spritgrommet_cold_start_one : (κs : _) (a : _) → One (embed_spritgrommet_cold_start.Learnt κs a) (λ x s. left x.placing (both s.1.0) (both s.1.1.0) (both s.1.1.1.0) (both s.1.1.1.1.0) x.refusal)
embed_spritgrommet_cold_start_one κs a x y s t p q = same p q

pub embed_spritgrommet_pass_one : (κs : _) (a : _) → One (embed_spritgrommet_pass.Learnt κs a) (λ x s. left a.0 (both s.1.0) (both s.1.1.0) (both s.1.1.1.0) (both s.1.1.1.1.0) x)
embed_spritgrommet_pass_one κs a x y s t p q = same p q

pub embed_spritgrommet_judge_one : (κs : _) (a : _) → One (embed_spritgrommet_judge.Learnt κs a) (λ x s. left a.0 (both s.1.1.1.0) (both s.1.1.1.1.0) (both s.1.1.1.1.1.0) (both s.1.1.1.1.1.1.0) x)
embed_spritgrommet_judge_one κs a x y s t p q = same p q

pub embed_spritgrommet_judge_frame_one : (κs : _) (a : _) → One (embed_spritgrommet_judge_frame.Learnt κs a) (λ x s. left a.0 (both s.1.1.1.0) (both s.1.1.1.1.0) (both s.1.1.1.1.1.0) (both s.1.1.1.1.1.1.0) x)
embed_spritgrommet_judge_frame_one κs a x y s t p q = same p q

pub embed_spritgrommet_winner_one : (κs : _) (a : _) → One (embed_spritgrommet_winner.Learnt κs a) (λ x s. x)
embed_spritgrommet_winner_one κs a x y s t p q = same p q

pub embed_spritgrommet_encrypt_one : (κs : _) (a : _) → One (embed_spritgrommet_encrypt.Learnt κs a) (λ x s. x)
embed_spritgrommet_encrypt_one κs a x y s t p q = same p q

pub embed_spritgrommet_decrypt_one : (κs : _) (a : _) → One (embed_spritgrommet_decrypt.Learnt κs a) (λ x s. x)
embed_spritgrommet_decrypt_one κs a x y s t p q = same p q

pub embed_spritgrommet_tally_one : (κs : _) (a : _) → One (embed_spritgrommet_tally.Learnt κs a) (λ x s. s.0.now)
embed_spritgrommet_tally_one κs a x y s t p q = same p q

pub embed_spritgrommet_open_one : (κs : _) (a : _) → One (embed_spritgrommet_open.Learnt κs a) (λ x s. x)
embed_spritgrommet_open_one κs a x y s t p q = same p q

pub embed_spritgrommet_next_one : (κs : _) (a : _) → One (embed_spritgrommet_next.Learnt κs a) (λ x s. x)
embed_spritgrommet_next_one κs a x y s t p q = same p q

pub embed_spritgrommet_put_header_one : (κs : _) (a : _) → One (embed_spritgrommet_put_header.Learnt κs a) (λ x s. plain_put_of x s.0.now)
embed_spritgrommet_put_header_one κs a x y s t p q = same p q

pub embed_spritgrommet_put_record_one : (κs : _) (a : _) → One (embed_spritgrommet_put_record.Learnt κs a) (λ x s. plain_put_of x s.0.now)
embed_spritgrommet_put_record_one κs a x y s t p q = same p q

pub embed_plain_of_reply_one : (κs : _) (a : _) → One (embed_plain_of_reply.Learnt κs a) (λ x s. x)
embed_plain_of_reply_one κs a x y s t p q = same p q

pub embed_plain_tally_with_one : (κs : _) (a : _) → One (embed_plain_tally_with.Learnt κs a) (λ x s. x)
embed_plain_tally_with_one κs a x y s t p q = same p q

pub embed_plain_plainanswer_from_result_answer_refusal_one : (κs : _) (a : _) → One (embed_plain_plainanswer_from_result_answer_refusal.Learnt κs a) (λ x s. x)
embed_plain_plainanswer_from_result_answer_refusal_one κs a x y s t p q = same p q

pub embed_plain_plainwritten_from_result_usize_refusal_one : (κs : _) (a : _) → One (embed_plain_plainwritten_from_result_usize_refusal.Learnt κs a) (λ x s. x)
embed_plain_plainwritten_from_result_usize_refusal_one κs a x y s t p q = same p q

pub embed_plain_plainwinner_from_option_winning_one : (κs : _) (a : _) → One (embed_plain_plainwinner_from_option_winning.Learnt κs a) (λ x s. x)
embed_plain_plainwinner_from_option_winning_one κs a x y s t p q = same p q

pub embed_plain_plainopening_from_result_cursor_refusal_one : (κs : _) (a : _) → One (embed_plain_plainopening_from_result_cursor_refusal.Learnt κs a) (λ x s. x)
embed_plain_plainopening_from_result_cursor_refusal_one κs a x y s t p q = same p q

pub embed_plain_plainnext_from_reading_one : (κs : _) (a : _) → One (embed_plain_plainnext_from_reading.Learnt κs a) (λ x s. x)
embed_plain_plainnext_from_reading_one κs a x y s t p q = same p q

pub embed_why_spritgrommet_why_one : (κs : _) (a : _) → One (embed_why_spritgrommet_why.Learnt κs a) (λ x s. x)
embed_why_spritgrommet_why_one κs a x y s t p q = same p q

pub embed_why_spritgrommet_why_frame_one : (κs : _) (a : _) → One (embed_why_spritgrommet_why_frame.Learnt κs a) (λ x s. x)
embed_why_spritgrommet_why_frame_one κs a x y s t p q = same p q

pub embed_why_plain_plainreason_from_drop_one : (κs : _) (a : _) → One (embed_why_plain_plainreason_from_drop.Learnt κs a) (λ x s. x)
embed_why_plain_plainreason_from_drop_one κs a x y s t p q = same p q

pub embed_why_plain_plainreason_from_result_explanation_refusal_one : (κs : _) (a : _) → One (embed_why_plain_plainreason_from_result_explanation_refusal.Learnt κs a) (λ x s. x)
embed_why_plain_plainreason_from_result_explanation_refusal_one κs a x y s t p q = same p q

-- programs::replay is left out: it answers nothing, is lent the runtime alone, and what it reads and writes no contract can say

-- streams::fill is left out: it reads what its reader gives, which no contract can say of standard input
