-- What the calls of the code answer, as the numbers of the table.
--   code        01, "Numbers the calls answer with": the number of a refusal
--   status_of   0 for a call that is done, else its refusal's number
--   value_or    what a call gave, or what stands for it where the call was refused
--   count_of    the number that a call gave, 0 where it was refused
--   no_info, no_name    01: "Every refusal returns 0 for the count and for every other returned number but its own"
use Rattle.std.specs.Prelude.{ℕ, Result, Ok, Err}
use Rattle.std.specs.Result.{result_unwrap_or}
use Rattle.store.specs.declared.answers.Info.{Info}
use Rattle.store.specs.declared.answers.Iterated.{Iterated}
use Rattle.store.specs.declared.status.Refusal.{Refusal}
use Rattle.store.specs.declared.status.Refusal.TheVariants.{Length, Corrupt, InvalidName, InvalidFlags, DataSize, NotFound, AlreadyExists, InvalidRecord, FlagsMismatch, NoSpace, Authentication, Rollback, InvalidKeyFile, Offset, TransferSize, InvalidMix, Ambiguous}

abbrev pub code : Refusal → ℕ
code Length = 1
code Corrupt = 2
code InvalidName = 3
code InvalidFlags = 4
code DataSize = 5
code NotFound = 6
code AlreadyExists = 7
code InvalidRecord = 8
code FlagsMismatch = 9
code NoSpace = 10
code Authentication = 11
code Rollback = 12
code InvalidKeyFile = 13
code Offset = 14
code TransferSize = 19
code InvalidMix = 20
code Ambiguous = 21

abbrev pub status_of : {A : Type 0} → Result A Refusal → ℕ
status_of (Ok _) = 0
status_of (Err refusal) = code refusal

abbrev pub value_or : {A : Type 0} → A → Result A Refusal → A
value_or other answer = result_unwrap_or answer other

abbrev pub count_of : Result ℕ Refusal → ℕ
count_of = value_or 0

abbrev pub no_info : Info
no_info = record { data_size = 0; flags = 0 }

abbrev pub no_name : Iterated
no_name = record { name_len = 0; next_slot = 0 }
