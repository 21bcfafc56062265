use Rattle.widl_trace.proofs.UnfinishedTexts.{dictionary_headed, entries_whole, list_whole, members_whole}
use Rattle.widl_trace.proofs.unfinished.Unfinished.of.Goals as goal

pub returns-in-List-clause-whole : goal.returns-in-List-clause-whole
returns-in-List-clause-whole c = λ defs. list_whole defs c.args.value.now (record { ref_ptr = c.args.value.ref_ptr; now = c.in-List.values }) c.in-List.is

pub returns-in-Entries-clause-whole : goal.returns-in-Entries-clause-whole
returns-in-Entries-clause-whole c = λ defs. entries_whole defs c.args.value.now (record { ref_ptr = c.args.value.ref_ptr; now = c.in-Entries.entries }) c.in-Entries.is

pub returns-in-Dict-clause-whole : goal.returns-in-Dict-clause-whole
returns-in-Dict-clause-whole c = λ defs. members_whole defs c.args.value.now c.in-Dict.of (record { ref_ptr = c.args.value.ref_ptr; now = c.in-Dict.members }) c.in-Dict.is

pub returns-in-Dict-clause-headed : goal.returns-in-Dict-clause-headed
returns-in-Dict-clause-headed c = λ defs some. dictionary_headed defs c.args.value.now c.in-Dict.of c.in-Dict.members c.in-Dict.is
