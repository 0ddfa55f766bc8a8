use Rattle.test_ffi_calls.proofs.tests.calls.set_and_get.Goals as goal

-- the handle from before is one of the overwritten archive
pub look_up_by-again-requires : goal.look_up_by-again-requires
look_up_by-again-requires c = record {
  archive = c.set_value-status.ensures.keeps.valid;
  header = c.set_value-status.ensures.keeps.header c.in_ok-handle.handle.header c.in_ok-handle.ensures.header;
}
