-- Every small whole job has its outcome.
use Rattle.definitions.specs.Lists.{Each}
use Rattle.designs.specs.Evaluate.{Returned}
use Rattle.designs_jobs.specs.Jobs.{is_0, is_1, is_2, is_3, is_4, is_5, is_6, is_7, is_8, is_9, is_10, is_11, is_12, is_13, is_14, is_15, is_16, is_17, is_18, is_19, is_20, is_21, is_22, is_23, is_24, is_25, is_26, is_27, is_28, is_29, is_30, is_31, is_32, is_33, is_34, is_35, is_36, is_37, is_38, is_39, is_40, is_41, is_42, is_43, is_44, is_45, is_46, is_47, is_48, jobs}

pub jobs_right : Each Returned jobs
unfolding Each jobs
jobs_right = (is_0, (is_1, (is_2, (is_3, (is_4, (is_5, (is_6, (is_7, (is_8, (is_9, (is_10, (is_11, (is_12, (is_13, (is_14, (is_15, (is_16, (is_17, (is_18, (is_19, (is_20, (is_21, (is_22, (is_23, (is_24, (is_25, (is_26, (is_27, (is_28, (is_29, (is_30, (is_31, (is_32, (is_33, (is_34, (is_35, (is_36, (is_37, (is_38, (is_39, (is_40, (is_41, (is_42, (is_43, (is_44, (is_45, (is_46, (is_47, (is_48, tt)))))))))))))))))))))))))))))))))))))))))))))))))
