use Rattle.em_histories.proofs.wrong.AnotherValueSaid as another_value_said
use Rattle.em_histories.proofs.wrong.BodyCutShort as body_cut_short
use Rattle.em_histories.proofs.wrong.ErrorBodySkipped as error_body_skipped
use Rattle.em_histories.proofs.wrong.GlobalErrorBodyInPlaceOfTheObjects as global_error_body_in_place_of_the_objects
use Rattle.em_histories.proofs.unfaithful_histories.Goals as goal

pub returns-clause-another_value_said : goal.returns-clause-another_value_said
returns-clause-another_value_said c = another_value_said.is_unfaithful

pub returns-clause-body_cut_short : goal.returns-clause-body_cut_short
returns-clause-body_cut_short c = body_cut_short.is_unfaithful

pub returns-clause-error_body_skipped : goal.returns-clause-error_body_skipped
returns-clause-error_body_skipped c = error_body_skipped.is_unfaithful

pub returns-clause-global_error_body_in_place_of_the_objects : goal.returns-clause-global_error_body_in_place_of_the_objects
returns-clause-global_error_body_in_place_of_the_objects c = global_error_body_in_place_of_the_objects.is_unfaithful
