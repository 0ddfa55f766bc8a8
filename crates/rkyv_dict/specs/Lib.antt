-- All definitions of the crate, which contracts and proofs import from here.
pub mod Forms
pub mod Maps
pub mod Pushing
pub mod Archives
pub mod Built
pub mod First
pub mod Hex
pub mod Script
pub mod Errors
pub mod States
pub mod Output
pub mod Steps
pub mod Commands
pub mod Counts
pub mod Dicts
pub mod Run
pub mod Once
pub mod Existence
unfoldable pub use Forms.{buckets_of, limit_of, lookup_key, pairs_of, text_pair, word_of}
pub use Forms.{LookupKey, Pairs, number_key, numbers, text_key, texts}
unfoldable pub use Maps.{PrintableMembers, map_types, number_calls, number_parts, number_spec}
unfoldable pub use Maps.{number_text, parts_by, parts_in, text_parts, types_of}
pub use Maps.{MapTypes}
unfoldable pub use Pushing.{AppendsText}
unfoldable pub use Archives.{IsArchive, IsMapArchive, MapValidationFails, ValidationFails}
unfoldable pub use Archives.{entry_count, found_in, hash, header_spec, keys_misplaced, line}
unfoldable pub use Archives.{line_at, listing, misplaced_count, pair_count, pair_lines}
unfoldable pub use Archives.{pair_positions, pair_spec, root, value_found, value_line, value_text}
unfoldable pub use Archives.{value_under}
unfoldable pub use Built.{ArchiveFails, BuildFails, Builds, IsArchiveOf, IsBuilt, MakesArchive}
unfoldable pub use Built.{PairsRepresent, PairsRepresentAt, RootRepresents, build_fails_in}
unfoldable pub use Built.{built_in, form_of_pairs, kind_of_pairs, natives, pairs_format}
unfoldable pub use Built.{represents_in}
pub use Built.{Natives}
unfoldable pub use First.{FindsFirstValue, HasHomes, first_under, first_value_text}
unfoldable pub use Hex.{byte_of_digits, bytes_of_digits, hex_of, hex_of_byte, lower_digit}
unfoldable pub use Hex.{prepended}
unfoldable pub use Script.{bits_of_word, both_of, check_request, get_request, hex_of_word}
unfoldable pub use Script.{is_numeral, kind_of_word, kind_request, lines_of, load_factor_request}
unfoldable pub use Script.{most_number, number_of, one_of, parsed_by, parsed_by_both, parts_after}
unfoldable pub use Script.{put_request, request_by, request_of, request_of_words, split_at, text_of}
unfoldable pub use Script.{two_of, width_request, without_arguments, words_left, words_of}
pub use Script.{NeedMemory, Request, build_archive, check_archive, count_misplaced, get_value}
pub use Script.{list_pairs, put_numbers, put_texts, set_kind, set_load_factor, set_width, show_hex}
unfoldable pub use Errors.{is_allocation_failure, message_of, verify_error_text, write_error_text}
unfoldable pub use States.{IsSound, emptied, form_of, no_pairs, start, with_numbers, with_texts}
pub use States.{Archived, IsSoundIn, State}
unfoldable pub use Output.{archive_output, audit_line, bad_line, built_line, error_line, get_line}
unfoldable pub use Output.{hex_line, list_lines, ok_line, value_in, verify_error_line}
unfoldable pub use Steps.{Prints, RunsTo, Sets, StepsIf, StepsLine, StepsTo}
pub use Steps.{StepBuildFails, StepBuilds, StepCheckFails, StepChecks}
unfoldable pub use Commands.{command_request}
unfoldable pub use Counts.{list_len, take_pairs}
unfoldable pub use Dicts.{archived_of, state_of}
pub use Run.{AppendsBeginning, AppendsFront, AppendsOutput, AppendsProperBeginning}
pub use Run.{AppendsProperFront, AppendsSome, Gathers, MovesFront, Progress}
unfoldable pub use Once.{BuildsAreOne, ChecksAreOne, ScriptsAreOne}
pub use Once.{BuildErrorsAreOne}
unfoldable pub use Existence.{AreNative, BuildsHaveResult, ChecksHaveResult}
pub use Existence.{ScriptsHaveOutput}
